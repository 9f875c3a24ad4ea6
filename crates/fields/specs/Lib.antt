-- 01, 'Script file': what the fields of the parts are for, and what they hold.
pub mod Roles
pub mod Fields
pub mod Children
