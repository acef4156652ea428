pub mod Cnf
