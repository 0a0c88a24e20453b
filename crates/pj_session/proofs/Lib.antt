mod Keeping
mod Running
mod Going
mod Told
