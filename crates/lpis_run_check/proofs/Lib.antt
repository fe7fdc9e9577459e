pub mod FolderLemmas
pub mod OneAnswerLemmas
