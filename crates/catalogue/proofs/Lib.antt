pub mod Catalogued
pub mod Names
