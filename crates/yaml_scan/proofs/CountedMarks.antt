-- Marks are those that are counted from the front of the text.
-- Each mark of what is read is counted, or is that of the end of a stream.
pub mod ReadMarks
-- So are the marks of an input's lexemes and of its fault.
pub mod StepMarks
-- So are the marks of the tokens that are returned.
pub mod TokenMarks
-- So are the marks in the answers to the calls of a parser.
pub mod CallMarks
