pub mod Card
