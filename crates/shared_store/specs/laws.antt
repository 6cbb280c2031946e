pub mod Trust
