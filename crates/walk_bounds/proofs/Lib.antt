mod Weighing
mod Finding
mod Light
mod Bearing
mod Fitting
