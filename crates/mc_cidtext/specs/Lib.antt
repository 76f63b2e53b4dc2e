pub mod CidText
