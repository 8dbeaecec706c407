-- How large what an open accepts is.
pub mod OpenLaws
