pub mod Books
pub mod FeedGrows
pub mod Reading
