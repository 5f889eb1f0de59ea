pub mod Conversations
pub mod Responses
pub mod Transcripts
