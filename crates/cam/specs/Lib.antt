pub mod Cam
