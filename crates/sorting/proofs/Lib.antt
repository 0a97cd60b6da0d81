mod Keys
mod Permuted
mod Sorted
