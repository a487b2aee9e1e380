-- Laws of lines.
mod LineLaws
