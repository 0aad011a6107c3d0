pub mod ForbidLaws
pub mod NumberLaws
pub mod RecordLaws
