pub mod PlainReads
