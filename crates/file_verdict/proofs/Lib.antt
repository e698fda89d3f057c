mod Steps
mod InOrder
