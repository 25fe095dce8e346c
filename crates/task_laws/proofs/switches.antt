-- How often the processor changes hands, who pays for it, and what it costs; and sections, which are run to their end.
pub mod OneJob
pub mod Switching
pub mod Stretches
pub mod PayingForward
pub mod SectionTicks
pub mod SectionSteps
pub mod RunToTheEnd
pub mod Families
pub mod FewChanges
