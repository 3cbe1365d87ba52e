pub mod Bodies
pub mod Names
pub mod HeaderFields
pub mod BodyValues
pub mod ParsingLaws
pub mod ReadTypes
