pub mod BatchLaws
pub mod ControlLaws
pub mod CourseLaws
pub mod StateLaws
pub mod Steps
pub mod StepLaws
