mod FindForeign
