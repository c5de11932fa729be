mod Asked
mod Calls
mod Said
mod FindsSaid
mod Bounds
mod AnswerSaid
mod IsolatedSaid
mod RunSaid
pub mod Demands
