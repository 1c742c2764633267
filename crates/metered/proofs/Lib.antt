pub mod StepArms
pub mod Loop
