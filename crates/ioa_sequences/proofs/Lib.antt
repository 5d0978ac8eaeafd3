pub mod SequenceWords
