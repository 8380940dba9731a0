mod Carrying
mod Asking
mod Answering
mod Printing
