mod Figuring
mod Walking
