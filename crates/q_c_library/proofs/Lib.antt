mod CommandFiles
mod JobWords
mod MoveLists
