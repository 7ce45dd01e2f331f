pub mod RoleLaws
pub mod Roles
