mod Steps
mod Ending
