mod Decimals
mod Walking
mod Reading
