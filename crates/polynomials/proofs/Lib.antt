mod Numbers
mod StepLaws
mod Masks
mod Products
