-- Along: bytes put part by part. Zeros: a line has no zero byte. That nothing else meets the contracts of `put_first`, `put_shown` and `put_steps` is `puts_unique` of printing.
pub mod Along
pub mod Zeros
