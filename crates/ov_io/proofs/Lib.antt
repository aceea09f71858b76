pub mod PieceLemmas
pub mod JsonLaws
