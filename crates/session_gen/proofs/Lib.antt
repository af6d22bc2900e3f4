mod Progress
mod Sum
