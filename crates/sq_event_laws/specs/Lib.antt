pub mod SourceCalls
pub mod LeafEvents
