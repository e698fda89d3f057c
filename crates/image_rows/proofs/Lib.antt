pub mod Below
pub mod Starts
pub mod Zero
pub mod Words
pub mod RomRows
pub mod Doublewords
