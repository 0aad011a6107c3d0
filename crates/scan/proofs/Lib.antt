pub mod AfterLaws
pub mod PayloadLaws
pub mod ForbidLaws
pub mod ScanLaws
