pub mod Alike
pub mod Checked
pub mod Numbers
pub mod Annotations
pub mod HintChecks
pub mod Replays
