pub mod StepByStep
pub mod Conducting
