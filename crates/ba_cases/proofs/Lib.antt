pub mod Faulty
pub mod OneText
pub mod Alike
pub mod InputsAlike
pub mod OneAnswer
pub mod Answered
pub mod Stopping
pub mod SeveralInputs
pub mod Handing
mod PlainRun
mod Failing
pub mod EachText
