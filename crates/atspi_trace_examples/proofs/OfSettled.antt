pub mod Settling_cases
