mod FindPlayed
