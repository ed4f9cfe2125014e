pub mod Answers
pub mod Causes
pub mod Devices
pub mod Generated
pub mod Printed
pub mod Ran
