pub mod Ethernet
