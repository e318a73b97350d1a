mod Fields
mod Lists
mod Standing
