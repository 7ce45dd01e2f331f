pub mod FirstLine
pub mod DecimalDigits
pub mod Beginnings
pub mod Outputs
pub mod AnswerWriting
pub mod ProgramRuns
pub mod MemberLines
