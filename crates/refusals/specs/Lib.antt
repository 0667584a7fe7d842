-- What a call that may be refused answers, and what it leaves of what is lent.
pub mod Numbers
pub mod Answered
pub mod Outcome
pub mod Steps
pub mod Given
pub mod Writes
