pub mod CountLaws
pub mod EachLaws
