mod LineLaws
mod TokenLaws
mod PartLaws
mod ReadingLaws
mod InputLaws
mod PassLaws
mod GivenLaws
mod TextLaws
