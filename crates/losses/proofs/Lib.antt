mod Ports
mod Passing
