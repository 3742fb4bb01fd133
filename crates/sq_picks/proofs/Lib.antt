pub mod WordsRead
