pub mod SideLaws
pub mod WovenLaws
pub mod CountLaws
pub mod LinkCallLaws
pub mod AppCallLaws
pub mod WordLaws
pub mod StillLaws
pub mod ThereLaws
