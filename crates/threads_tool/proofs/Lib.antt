mod Answering
mod Ending
mod Events
mod Stopping
mod Within
