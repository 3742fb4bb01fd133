mod Checking
mod FlatFiles
