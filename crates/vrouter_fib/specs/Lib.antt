pub mod Longest
pub mod Trie
