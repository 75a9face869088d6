pub mod Stream
pub mod LineReading
pub mod Fed
pub mod LineFault
pub mod LineLaws
