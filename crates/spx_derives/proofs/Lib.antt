mod TableLaws
mod Steps
mod Elements
mod DifferenceLaws
mod Variables
mod ExportPlaces
mod Findings
mod SomeFindings
