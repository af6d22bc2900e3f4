pub mod VoteLaws
