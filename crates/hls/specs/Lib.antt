-- What the crate's contracts cite. `Percent` and `Turn` are whole numbers, `Hls` is the Rust's f64 steps, `Exact` the whole-number
-- formula beside which their bytes stand.
pub mod Percent
pub mod Turn
pub mod Hls
pub mod Exact
